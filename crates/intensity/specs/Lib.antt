-- Intensity stereo. Assumes nothing.
pub mod Intensity
pub mod BandRuns
pub mod EditionOne
