pub mod ChangeLemmas
pub mod FaultLemmas
pub mod IndexLemmas
pub mod ScenarioLemmas
pub mod EditLemmas
pub mod SheetLemmas
pub mod KnownValues
pub mod KnownFaults
