pub mod Findings
pub mod Held
pub mod Laws
pub mod Ready
pub mod ReadyData
pub mod Rows
pub mod Shelf
pub mod Steps
