pub mod VerilogOutput
