-- What C is told.
pub mod Replies
pub mod Exploring
pub mod Words
