-- Theorems about the module of a netlist, lowest first.
pub mod Bits
pub mod AssignmentLaws
pub mod StandardLaws
pub mod Mapped
pub mod WireLaws
pub mod Exact
pub mod TextLaws
pub mod AnswerLaws
pub mod Claim
pub mod Marked
