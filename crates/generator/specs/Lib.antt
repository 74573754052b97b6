pub mod Generator
pub mod Answer
pub mod States
pub mod Tests
