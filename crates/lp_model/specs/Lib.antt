pub mod Entered
pub mod Faults
pub mod Grouping
pub mod Indexed
pub mod Parts
pub mod WaitConstant
pub mod Wide
