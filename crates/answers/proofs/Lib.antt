pub mod Agreeing
pub mod Asking
