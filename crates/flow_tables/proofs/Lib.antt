pub mod Best
pub mod Classes
pub mod Clauses
pub mod Hits
pub mod Placed
pub mod Searching
