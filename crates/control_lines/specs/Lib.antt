pub mod Control
pub mod Needed
pub mod Orders
pub mod Words
