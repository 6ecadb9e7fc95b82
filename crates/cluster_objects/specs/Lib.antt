pub mod Addresses
pub mod Apply
pub mod Changes
pub mod Laws
pub mod PodAtLaws
pub mod Refusals
