pub mod States
pub mod WriteLaws
pub mod Answer
pub mod GenerateTests
pub mod Within
pub mod Banks
