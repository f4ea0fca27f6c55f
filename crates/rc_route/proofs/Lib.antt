pub mod BisectLaws
pub mod EqualLaws
pub mod HopLaws
pub mod KeyLaws
pub mod OrderLaws
pub mod WayLaws
