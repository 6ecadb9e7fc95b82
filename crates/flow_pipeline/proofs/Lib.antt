pub mod Gone
pub mod Tuples
pub mod VisitLaws
pub mod WayLaws
