pub mod Comments
pub mod Coefficients
pub mod Record
pub mod Reading
pub mod AfterSize
pub mod WholeFile
