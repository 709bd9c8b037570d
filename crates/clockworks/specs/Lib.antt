-- What the parts of a clockwork mean.
pub mod Meaning
