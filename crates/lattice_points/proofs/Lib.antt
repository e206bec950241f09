pub mod CutLemmas
pub mod BoxLemmas
pub mod LineLemmas
pub mod FoundLemmas
pub mod ScanLemmas
pub mod InequalityLemmas
pub mod RowLemmas
