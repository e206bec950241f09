pub mod Earlier
pub mod Fields
pub mod Forms
pub mod NumberLines
pub mod Readers
