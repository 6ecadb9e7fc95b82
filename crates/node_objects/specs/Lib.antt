pub mod Indexed
pub mod NodeLaws
pub mod SideLaws
pub mod Sides
pub mod Touched
pub mod UnderName
