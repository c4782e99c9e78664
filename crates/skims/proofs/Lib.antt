pub mod ArcSums
pub mod WaitLemmas
pub mod PartLemmas
pub mod TotalLemmas
pub mod NearLemmas
pub mod FillLemmas
pub mod StepLemmas
