pub mod CheckText
