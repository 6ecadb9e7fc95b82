pub mod Forward
pub mod Listing
pub mod Matching
pub mod Table
