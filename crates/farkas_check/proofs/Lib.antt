pub mod Sums
pub mod Refuting
pub mod BalanceLemmas
pub mod PartFolds
pub mod TermLemmas
