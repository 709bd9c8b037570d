-- Lemmas on the text of a row, on the sizes of parts, and on words.
pub mod Lines
pub mod Sizes
pub mod Cuts
