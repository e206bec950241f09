pub mod Fours
pub mod Facets
pub mod Others
pub mod Ridges
pub mod Walks
pub mod FaceCharts
pub mod Gathered
pub mod Frames
