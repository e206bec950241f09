pub mod TakenItems
pub mod SegmentLemmas
pub mod HandLemmas
pub mod HeldLemmas
pub mod LentRows
