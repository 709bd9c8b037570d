-- How answers are held against what is found on the grid, and what is counted.
pub mod Judging
pub mod Following
pub mod Counting
pub mod Spaces
pub mod Opinions
