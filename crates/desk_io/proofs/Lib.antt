pub mod ToldLemmas
pub mod GatheringLemmas
