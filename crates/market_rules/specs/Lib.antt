pub mod Lines
pub mod Forms
pub mod Market
pub mod Answer
pub mod Tests
pub mod File
