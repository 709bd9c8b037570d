pub mod Named
pub mod Told
mod Walked
