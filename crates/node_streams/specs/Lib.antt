pub mod StreamLaws
pub mod Streams
pub mod Telling
