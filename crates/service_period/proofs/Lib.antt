pub mod KnownValues
pub mod WeightLemmas
pub mod ServiceLemmas
pub mod PeriodLemmas
