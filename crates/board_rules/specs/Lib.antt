pub mod Machine
pub mod Width
pub mod Table
pub mod Netlist
pub mod Marked
