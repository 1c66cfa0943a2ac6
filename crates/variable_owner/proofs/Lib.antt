pub mod OwnerLemmas
pub mod PlaceLemmas
pub mod RegisteredLemmas
pub mod RowLemmas
