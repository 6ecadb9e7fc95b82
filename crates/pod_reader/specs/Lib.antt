pub mod Containers
pub mod Laws
pub mod Pods
pub mod PortOrder
