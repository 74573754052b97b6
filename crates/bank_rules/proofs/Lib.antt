-- The theorem of demand 3, and what joins the laws of compile and of read and run.
pub mod Claim
pub mod Scores
pub mod Example
