pub mod Members
mod GraphLaws
mod AreaLaws
mod HopLaws
mod WholeLaws
pub mod TowardsLaws
mod HopsByLaws
mod ColumnLaws
mod SplitLaws
mod PartLaws
mod AdjacencyLaws
mod SegmentLaws
mod RowLaws
mod SplitFits
mod HopOrderLaws
mod CostLaws
mod InwardLaws
mod KeptLaws
mod InsideLaws
mod SoleLaws
mod ToldLaws
mod ReachLaws
mod TableLaws
mod SplitKept
