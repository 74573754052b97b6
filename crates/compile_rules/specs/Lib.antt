pub mod Compile
pub mod Tests
pub mod Limits
pub mod Compiled
pub mod Marked
