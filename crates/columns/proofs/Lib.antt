-- Lemmas on blanks.
mod Blanks
mod Counted
