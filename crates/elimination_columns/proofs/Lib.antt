pub mod Entering
pub mod After
