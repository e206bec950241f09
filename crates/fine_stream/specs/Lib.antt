pub mod Paths
pub mod Kept
pub mod Places
pub mod Found
pub mod Cursors
pub mod Rows
