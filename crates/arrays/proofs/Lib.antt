-- Laws of arrays of one value.
pub mod FilledLaws
