-- What bounds on differences of clocks mean, and squares of them.
pub mod Bounds
pub mod Squares
pub mod Differences
pub mod Consequences
pub mod Shown
pub mod Entries
