pub mod Equivalence
pub mod Mirror
pub mod Cells
pub mod Machine
pub mod FreshNames
pub mod Numbers
