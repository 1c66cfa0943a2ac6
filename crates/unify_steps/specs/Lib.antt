pub mod Case
pub mod Hash
pub mod MetPairs
pub mod Step
pub mod Next
pub mod First
