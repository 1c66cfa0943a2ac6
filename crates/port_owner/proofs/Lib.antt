mod ChainLemmas
pub mod EndLemmas
