pub mod PlaneLemmas
pub mod MeetLemmas
pub mod ListLemmas
