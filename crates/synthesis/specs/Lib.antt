-- Subband synthesis. Assumes nothing.
pub mod Synthesis
