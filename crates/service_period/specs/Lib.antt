pub mod Periods
pub mod Services
pub mod Weights
