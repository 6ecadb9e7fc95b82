pub mod Canonical
pub mod Comparing
pub mod Forms
pub mod Group
pub mod Selection
pub mod Written
