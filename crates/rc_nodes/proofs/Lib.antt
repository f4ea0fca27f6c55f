pub mod Moves
pub mod Probe
pub mod Crowd
pub mod KnownLaws
pub mod CountLaws
mod CloseLaws
