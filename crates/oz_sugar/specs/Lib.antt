pub mod Deep
pub mod CodeLimits
pub mod Rows
pub mod Laws
pub mod Texts
