pub mod Splitting
pub mod Digits
pub mod Caps
pub mod Faults
pub mod Pairs
pub mod Unique
pub mod Canonical
pub mod Exact
mod OutputLines
