-- What the promises of the program's functions cite.
pub mod Explored
pub mod Listed
