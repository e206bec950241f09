pub mod Sizes
pub mod Vectors
