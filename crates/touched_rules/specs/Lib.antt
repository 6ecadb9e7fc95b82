pub mod Addresses
pub mod Touched
pub mod Touching
