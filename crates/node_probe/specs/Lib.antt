pub mod Heads
pub mod Refutations
pub mod Findings
pub mod Lifted
pub mod FoldCaches
pub mod Stems
pub mod Followed
