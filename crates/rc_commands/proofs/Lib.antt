mod NamedLaws
mod PlacedLaws
mod IndexLaws
mod LawfulLaws
mod AccessListLaws
mod PolicyLaws
mod SaidLaws
mod InterfaceLineLaws
mod EntryLineLaws
mod ProcessLineLaws
mod BgpLineLaws
pub mod SettleLaws
pub mod LastLineLaws
