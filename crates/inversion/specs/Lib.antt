-- Inversion. Assumes nothing.
pub mod Inversion
