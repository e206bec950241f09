pub mod BitLemmas
pub mod CauseLemmas
pub mod FirstLemmas
pub mod FourLemmas
pub mod SideLemmas
pub mod SmallLemmas
