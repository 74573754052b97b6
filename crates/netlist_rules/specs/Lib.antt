pub mod Read
pub mod Check
pub mod Run
pub mod Exact
pub mod Tests
