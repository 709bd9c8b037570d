-- Lemmas on the writing of a row.
pub mod Writing
