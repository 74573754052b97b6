pub mod Parts
pub mod AnswerLaws
