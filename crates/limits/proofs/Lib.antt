pub mod Numbers
pub mod Size
