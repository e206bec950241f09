pub mod Segments
pub mod Taken
pub mod Hands
pub mod Held
