-- Requantize. Assumes nothing.
pub mod Requantize
pub mod Lookup
pub mod Standard
pub mod Parts
