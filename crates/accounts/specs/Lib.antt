-- Runs and bounds as text.
pub mod Lines
pub mod Bounds
pub mod Subjects
pub mod Walks
