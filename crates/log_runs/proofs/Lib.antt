pub mod LogLemmas
pub mod RunLemmas
