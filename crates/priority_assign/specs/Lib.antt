pub mod Insertion
pub mod Rules
pub mod Search
pub mod Windows
