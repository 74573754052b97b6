-- Laws of the board machine, of linear forms, of widths and of depths, lowest first.
pub mod MachineLaws
pub mod FormLaws
pub mod WidthLaws
pub mod DepthLaws
pub mod RangeLaws
pub mod Parts
pub mod Shifts
pub mod OutputLaws
pub mod TableLaws
pub mod BoundLaws
pub mod Marked
pub mod NetlistLaws
