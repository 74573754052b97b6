pub mod Decimal
pub mod Wrote
pub mod Lines
pub mod Listed
pub mod Numbered
pub mod Writers
