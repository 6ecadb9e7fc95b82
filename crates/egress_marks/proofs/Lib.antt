pub mod Marked
pub mod Others
