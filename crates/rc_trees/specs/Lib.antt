pub mod Trees
pub mod Combine
pub mod Parts
pub mod Recipes
pub mod Fields
pub mod Rows
