pub mod TableLaws
pub mod Picking
pub mod Refreshing
