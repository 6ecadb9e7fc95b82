pub mod Cache
pub mod CacheData
pub mod KnownRule
pub mod ListsBetween
pub mod Missing
pub mod Outlook
pub mod PlanData
pub mod Standing
