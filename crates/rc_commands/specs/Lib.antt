pub mod Said
pub mod InterfaceLines
pub mod EntryLines
pub mod OspfLines
pub mod BgpLines
pub mod LastLine
pub mod LastLineRows
