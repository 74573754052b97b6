-- Theorems about reading, checking and running a netlist, lowest first.
pub mod ReadingLaws
pub mod Conditions
pub mod ReadTests
pub mod ReadAccepts
pub mod NetlistBytes
pub mod Coefficients
pub mod CheckTests
pub mod CheckAccepts
pub mod NoRows
pub mod RunLaws
