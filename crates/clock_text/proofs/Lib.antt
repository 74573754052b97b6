-- Theorems about the text of clock-bank, lowest first.
pub mod Lines
pub mod ListBytes
pub mod Texts
pub mod Printed
pub mod Examples
