pub mod FaultLemmas
pub mod IdLemmas
mod FetchLemmas
mod KnownCalls
mod KnownFeeds
mod KnownTripRows
pub mod RowLemmas
pub mod StopLemmas
pub mod CallFaultLemmas
pub mod CallListLemmas
pub mod CallLemmas
pub mod CallRowLemmas
pub mod GroupLemmas
pub mod OrderLemmas
pub mod StableLemmas
pub mod StretchLemmas
pub mod TimesRiseLemmas
pub mod TripCallLemmas
pub mod TripListLemmas
pub mod ServiceLemmas
pub mod CalendarLemmas
pub mod TripLemmas
pub mod BandLemmas
pub mod KeptLemmas
pub mod JoinLemmas
pub mod ReadingLemmas
pub mod FileLemmas
pub mod ServiceFileLemmas
