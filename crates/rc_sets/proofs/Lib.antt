pub mod AccessListLaws
pub mod AccessListsReduced
pub mod IdleLaws
pub mod RegionLaws
pub mod RegionsReduced
mod AskedLaws
mod BuildLaws
mod DecidingLaws
mod FullLaws
mod GivenLaws
mod IntervalLaws
mod KeyLaws
mod LeadLaws
mod LineLaws
pub mod LongestLaws
mod MarkLaws
mod NumberLaws
mod StepLaws
mod StretchLaws
mod TableLaws
mod WholeLaws
mod WildcardLaws
