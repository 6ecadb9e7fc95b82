pub mod BesidePeers
pub mod Finding
pub mod KnownRules
pub mod Lists
pub mod ListsBetween
pub mod Missing
pub mod Plans
