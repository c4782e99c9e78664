pub mod BoardingLemmas
pub mod FaultLemmas
pub mod IndexLemmas
pub mod PlacingLemmas
