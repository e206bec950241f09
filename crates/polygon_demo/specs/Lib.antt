pub mod Limits
pub mod Polygons
