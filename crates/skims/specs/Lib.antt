pub mod Parts
pub mod ChosenPaths
pub mod Totals
pub mod Skims
pub mod Filling
