pub mod Net
pub mod Causes
