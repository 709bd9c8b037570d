-- Timed automata, their runs and their rows of numbers: the definitions that every promise of this repository cites.
pub mod Times
pub mod Automata
pub mod Runs
pub mod Regions
pub mod Rows
pub mod Statements
pub mod Bell
