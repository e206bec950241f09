pub mod Blocking
pub mod LastParts
