pub mod Blocks
pub mod Egresses
pub mod Groups
pub mod Laws
pub mod Nodes
pub mod Pools
pub mod Texts
pub mod Tiers
