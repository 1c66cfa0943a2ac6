pub mod Escapes
pub mod TextSymbols
pub mod Texts
