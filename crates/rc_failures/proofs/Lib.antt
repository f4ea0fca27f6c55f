mod PlainLaws
mod ArrivalLaws
mod RowLaws
mod AgreeLaws
mod AnalysisLaws
pub mod OneList
