pub mod Deals
pub mod LedgerLemmas
pub mod Parts
pub mod Steps
