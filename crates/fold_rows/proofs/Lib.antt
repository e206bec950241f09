pub mod FactorLemmas
pub mod SideLemmas
pub mod EdgeLemmas
pub mod RowLemmas
