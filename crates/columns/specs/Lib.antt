-- Texts in columns.
pub mod Columns
