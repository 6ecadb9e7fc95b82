pub mod Class
pub mod Index
pub mod Lookup
pub mod Order
pub mod Search
