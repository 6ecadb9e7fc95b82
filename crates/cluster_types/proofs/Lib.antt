pub mod FirstRule
