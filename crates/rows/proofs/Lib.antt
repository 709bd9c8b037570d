-- Rows: read back on lists, gone over word by word, and taken apart; and what iterators and closures give.
pub mod Round
pub mod Walking
pub mod Whole
pub mod Parts
pub mod Values
pub mod Invariants
pub mod Spelling
pub mod Made
pub mod Yielding
