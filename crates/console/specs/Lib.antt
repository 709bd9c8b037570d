-- What the promises of the shared parts of the programs cite.
pub mod Numbers
pub mod Rows
pub mod Mistakes
pub mod Calls
pub mod Programs
pub mod Budget
pub mod Names
pub mod Nearness
pub mod Unknowns
pub mod Answers
pub mod Clockworks
pub mod Problems
