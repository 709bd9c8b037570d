-- Rows read back as automata.
pub mod Parse
pub mod Refusals
pub mod Numbers
pub mod Statements
pub mod Parts
pub mod Values
pub mod EdgeParts
pub mod Viewed
pub mod Placed
pub mod Views
pub mod Standing
pub mod Reading
