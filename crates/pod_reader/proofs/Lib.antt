pub mod PodAddresses
pub mod SortedPorts
