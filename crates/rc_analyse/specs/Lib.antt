pub mod Answer
pub mod Sound
pub mod Found
