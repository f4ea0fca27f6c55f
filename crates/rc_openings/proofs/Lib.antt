mod WordsLemmas
mod CommonLemmas
mod PartLemmas
mod GroupLemmas
mod DecisiveLemmas
mod ValueLemmas
mod AddressLemmas
pub mod ApartLemmas
pub mod FrontLemmas
pub mod ReadingLaws
