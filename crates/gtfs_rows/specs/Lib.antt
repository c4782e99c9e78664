pub mod Fields
pub mod Records
pub mod Sheets
pub mod Faults
pub mod Refusals
pub mod Cursor
pub mod Cuts
pub mod Shape
