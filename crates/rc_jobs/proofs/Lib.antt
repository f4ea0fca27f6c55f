pub mod BoundLaws
mod ShareLaws
pub mod FlowLaws
pub mod CollectLaws
