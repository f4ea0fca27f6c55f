pub mod ForwardingLaws
pub mod EndLaws
pub mod HopLaws
pub mod LayerLaws
pub mod StretchLaws
mod GrowingLaws
mod MakingLaws
