-- Matrixing. Assumes nothing.
pub mod Matrixing
pub mod Halves
