mod BuildLaws
mod LeastLaws
pub mod OneNetwork
mod TwiceLaws
mod OldNetLaws
