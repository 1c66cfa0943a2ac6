pub mod OpAnswers
