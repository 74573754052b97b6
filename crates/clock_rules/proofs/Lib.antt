-- The marked clocks, by computation; then the laws of the clocked form, lowest first.
pub mod Marked
pub mod Depths
pub mod DelayLaws
pub mod Pipeline
pub mod Theorem
pub mod Flat
pub mod Ranges
pub mod InPlace
pub mod TableLaws
pub mod LongestTable
pub mod InBytes
pub mod Running
pub mod AnswerLaws
pub mod Claim
