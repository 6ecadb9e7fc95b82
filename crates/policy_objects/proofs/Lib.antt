pub mod Names
pub mod RuleLists
pub mod WholePolicies
