pub mod OneAnswer
pub mod Telling
