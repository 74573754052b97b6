pub mod Masks
pub mod Columns
