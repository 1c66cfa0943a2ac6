pub mod ParseAnswers
