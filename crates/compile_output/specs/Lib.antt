pub mod CompileOutput
