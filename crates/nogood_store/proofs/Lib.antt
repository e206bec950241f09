pub mod Fetched
pub mod Taken
