pub mod Spelling
pub mod Blanks
pub mod Faults
pub mod Tokens
pub mod Place
pub mod Scan
pub mod Lexer
pub mod Laws
