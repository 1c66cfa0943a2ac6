pub mod AnswerCounts
pub mod Balance
pub mod FitRuns
pub mod Joined
pub mod Laws
