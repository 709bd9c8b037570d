pub mod Ending
pub mod Near
pub mod Rising
pub mod Waits
