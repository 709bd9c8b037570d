-- Witnesses of what a table tells.
pub mod Witnesses
