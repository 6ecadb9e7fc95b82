pub mod Counting
pub mod FirstRules
pub mod OnNode
