-- Theorems about samples as bytes and about the text of run-bank, lowest first.
pub mod SampleBytes
pub mod Signed
pub mod Texts
pub mod Examples
