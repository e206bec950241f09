pub mod Faults
pub mod Caps
pub mod Cursors
pub mod Output
