pub mod ConnectionIndex
pub mod Connections
pub mod Course
pub mod CourseViews
pub mod TupleLaws
pub mod Views
pub mod Walk
pub mod Way
