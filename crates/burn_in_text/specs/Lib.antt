pub mod BurnInText
