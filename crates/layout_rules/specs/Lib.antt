pub mod Bytes
pub mod Records
pub mod Matrix
pub mod Step
pub mod Places
pub mod Written
pub mod Tests
