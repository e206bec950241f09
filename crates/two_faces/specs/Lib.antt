pub mod Added
pub mod Meets
