pub mod Feeds
pub mod InMemory
pub mod Nexting
pub mod Proceeding
pub mod Putting
pub mod Standing
