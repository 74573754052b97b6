pub mod Samples
pub mod RunText
pub mod Examples
