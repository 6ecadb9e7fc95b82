pub mod Actions
pub mod Directions
pub mod Places
pub mod PortWords
pub mod Ports
