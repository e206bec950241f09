pub mod Steps
pub mod Tables
pub mod Units
pub mod Kept
