-- What a drawing gives, and what a row is drawn as.
pub mod Sheets
pub mod Drawn
pub mod Words
pub mod Comparisons
pub mod Sizes
pub mod Explained
pub mod Places
