pub mod InSlice
pub mod Members
pub mod Columns
pub mod Ready
