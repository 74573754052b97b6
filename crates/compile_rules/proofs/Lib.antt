-- Laws of the netlist of a matrix, lowest first.
pub mod Limits
pub mod Remaining
pub mod Depths
pub mod Counts
pub mod Operands
pub mod Values
pub mod Widths
pub mod Netlist
pub mod Weights
pub mod Narrow
pub mod Compiled
pub mod NetlistDepth
pub mod Signs
pub mod Negated
pub mod CompileTests
pub mod SampleWidths
pub mod Marked
