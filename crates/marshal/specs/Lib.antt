pub mod Marshal
