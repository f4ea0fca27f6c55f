mod ChosenLaws
pub mod DecisionLaws
mod LeaderLaws
mod MultipathLaws
mod OrderLaws
mod RowLaws
pub mod SeveralLaws
