pub mod CaseLemmas
pub mod StepLemmas
pub mod MetLemmas
pub mod FirstLemmas
