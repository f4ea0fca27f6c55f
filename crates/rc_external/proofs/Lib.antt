pub mod CostLaws
pub mod DefaultLaws
pub mod WayLaws
pub mod RowLaws
pub mod OrderLaws
pub mod RangeLaws
pub mod PlaceLaws
pub mod PieceLaws
