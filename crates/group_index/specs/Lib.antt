pub mod Members
pub mod Index
pub mod Changes
pub mod Settled
pub mod MemberLaws
pub mod ChangeLaws
pub mod Before
