pub mod Spaced
pub mod SymbolSpelling
pub mod SpelledTokens
pub mod CanonicalWritten
pub mod Utf8Texts
pub mod RoundTrip
