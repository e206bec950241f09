pub mod Receipts
pub mod Parts
