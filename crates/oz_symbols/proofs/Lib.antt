pub mod Numbers
pub mod Escapes
pub mod TokenLists
pub mod Interning
