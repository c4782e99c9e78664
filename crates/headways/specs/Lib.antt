pub mod Faults
pub mod Laws
pub mod Lines
pub mod Means
pub mod Numbering
pub mod TripWeights
