pub mod LinkLemmas
mod MeetLemmas
pub mod MakeLemmas
mod FitLemmas
pub mod RowLemmas
mod CountedLemmas
pub mod AloneLemmas
