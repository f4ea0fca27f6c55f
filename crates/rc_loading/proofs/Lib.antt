mod Listed
mod FileFronts
mod ReadLaws
mod BuiltLaws
pub mod OneNet
