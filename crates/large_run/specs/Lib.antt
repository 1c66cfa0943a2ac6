pub mod Text
pub mod LargeTexts
