pub mod Decision
pub mod DecisionRows
pub mod Multipath
pub mod MultipathRows
pub mod Tests
pub mod Beside
