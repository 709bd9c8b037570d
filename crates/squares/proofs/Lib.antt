-- What is proved of bounds and squares.
mod Tightness
mod Filling
mod Differences
mod Seen
mod PointsWithin
mod Sharpest
mod StatesWithin
pub mod Consequences
mod SquareOf
