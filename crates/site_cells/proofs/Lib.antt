pub mod HomeLemmas
pub mod RecordLemmas
pub mod RowLemmas
pub mod TokenLemmas
