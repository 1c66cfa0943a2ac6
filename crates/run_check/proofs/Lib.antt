pub mod AgainLemmas
pub mod WorldLemmas
pub mod LineLemmas
pub mod PrintLemmas
pub mod SaveLemmas
