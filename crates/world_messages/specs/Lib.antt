pub mod BindRequests
pub mod RegisterCounts
pub mod MessageCounts
pub mod Fitting
pub mod Messages
pub mod Unfit
