-- What an answer means.
pub mod Asked
