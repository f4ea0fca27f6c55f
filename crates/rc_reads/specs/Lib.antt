pub mod Reads
pub mod Nexts
pub mod ReadsRows
pub mod Stayed
