pub mod ListLaws
pub mod OrderLaws
pub mod InterfaceLaws
pub mod FillingLaws
pub mod LeftLaws
pub mod PrefixLaws
mod PairLaws
pub mod LinkLaws
