-- Laws of the bits of a number.
pub mod BitLaws
