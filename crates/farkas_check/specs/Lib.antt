pub mod Parts
pub mod Folds
