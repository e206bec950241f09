pub mod Causes
pub mod Firsts
pub mod Fours
pub mod Incidence
pub mod RuledOut
pub mod Sides
pub mod Uncovered
