pub mod Limits
pub mod Size
