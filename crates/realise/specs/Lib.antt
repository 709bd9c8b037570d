-- Runs along a path.
pub mod Ends
pub mod Failures
pub mod Places
pub mod Runs
