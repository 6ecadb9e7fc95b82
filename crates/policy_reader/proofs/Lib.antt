pub mod ReadItems
pub mod WholeItems
