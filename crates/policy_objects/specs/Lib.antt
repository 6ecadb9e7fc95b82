pub mod Applied
pub mod Laws
pub mod Peers
pub mod Policies
pub mod Rules
