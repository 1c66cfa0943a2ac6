pub mod WaitLemmas
pub mod AgainLemmas
