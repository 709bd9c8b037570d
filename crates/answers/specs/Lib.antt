-- What the answers of either search mean.
pub mod ByZones
pub mod Either
