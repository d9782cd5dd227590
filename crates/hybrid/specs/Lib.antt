-- Hybrid synthesis. Assumes nothing.
pub mod Hybrid
pub mod EditionOne
