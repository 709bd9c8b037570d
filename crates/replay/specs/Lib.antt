-- Runs as lists of moves, over one denominator.
pub mod Meaning
pub mod Checks
pub mod Changes
pub mod Moves
pub mod Outcomes
pub mod Fractions
