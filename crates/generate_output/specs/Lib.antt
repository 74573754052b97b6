pub mod GenerateOutput
