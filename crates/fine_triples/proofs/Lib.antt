pub mod Insertion
pub mod Spelling
pub mod InsideLemmas
pub mod CrossLemmas
pub mod ParallelLemmas
pub mod ShareLemmas
pub mod Passed
pub mod FineConditions
