pub mod ScopeIndex
pub mod ReadAnswers
pub mod Fields
pub mod Patterns
