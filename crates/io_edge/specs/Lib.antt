pub mod Causes
pub mod Changes
pub mod Lines
pub mod Memory
pub mod Reading
