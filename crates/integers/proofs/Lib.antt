-- Laws of ℤ, and one of Bool, that the logic's library lacks, lowest first. No word of the domain stands in them.
pub mod Truth
pub mod Difference
pub mod Expression
pub mod Ring
pub mod Congruence
pub mod Size
pub mod Held
