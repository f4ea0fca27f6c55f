mod LineLaws
mod CubeLaws
mod PartLaws
mod StateLaws
mod DigitLaws
