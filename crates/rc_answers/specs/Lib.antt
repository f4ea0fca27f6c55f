pub mod Subject
pub mod Given
pub mod Texts
pub mod Written
pub mod Sound
