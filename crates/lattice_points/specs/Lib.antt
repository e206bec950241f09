pub mod Boxes
pub mod Faults
pub mod Inequalities
pub mod Lines
pub mod Scans
