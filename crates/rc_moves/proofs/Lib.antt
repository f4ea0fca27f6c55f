pub mod PositionLaws
pub mod BoundLaws
pub mod NetworkLaws
pub mod PlaneLaws
pub mod SharedLaws
