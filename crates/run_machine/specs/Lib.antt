pub mod Laws
pub mod Lines
pub mod Machine
pub mod Settling
pub mod Streams
