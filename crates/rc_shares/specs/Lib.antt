pub mod Stretches
pub mod Hands
pub mod Making
