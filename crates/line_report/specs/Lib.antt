pub mod OnBoard
pub mod Pages
pub mod Passengers
pub mod Sending
pub mod Sorts
pub mod Summary
pub mod Tables
pub mod Volumes
