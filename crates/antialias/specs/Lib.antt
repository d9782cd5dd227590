-- Antialias. Assumes nothing.
pub mod Antialias
