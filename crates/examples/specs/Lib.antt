-- What was tried and what is counted of it.
pub mod Trying
