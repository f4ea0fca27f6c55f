pub mod Laying
pub mod Preparing
pub mod Alone
