pub mod Meetings
pub mod ShareNumbers
pub mod FineConditions
