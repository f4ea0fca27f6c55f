pub mod Words
pub mod Views
pub mod Good
pub mod Seats
