pub mod CanonicalNeeds
pub mod Compared
pub mod FormBytes
pub mod GroupTexts
pub mod Listings
pub mod NameBytes
pub mod SetLabels
