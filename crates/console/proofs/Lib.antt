-- Lemmas on words of digits and words of a text, on first places, on copies, and on words that are nearly the same.
pub mod Digits
pub mod Places
pub mod Changes
pub mod Words
pub mod Copies
