-- Laws of row sums, lowest first.
pub mod Sums
pub mod Values
pub mod TermOrder
pub mod RowSums
pub mod Signs
pub mod Powers
pub mod RowDepth
pub mod RowsDepth
pub mod Negated
pub mod Placing
