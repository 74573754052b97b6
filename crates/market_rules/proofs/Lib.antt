pub mod LineLaws
pub mod FormLaws
pub mod MarketTests
pub mod Spelling
pub mod FileLines
pub mod MarketRecord
pub mod Files
pub mod Example
