pub mod Joins
pub mod Sums
pub mod Shallowest
pub mod SumDepth
pub mod Signs
pub mod Placing
