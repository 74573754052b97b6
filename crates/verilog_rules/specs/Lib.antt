pub mod Module
pub mod Meaning
pub mod Text
pub mod Standard
pub mod Answer
pub mod Tests
pub mod Claim
pub mod Marked
