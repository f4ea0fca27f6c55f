pub mod OrderLaws
mod PlaceLaws
mod EditLaws
mod SaidLaws
mod FindLaws
mod HoldLaws
mod LongestLaws
mod SameLaws
