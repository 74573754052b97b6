pub mod Lines
pub mod ListBytes
pub mod ClockText
pub mod Examples
