-- Mid-side and intensity. Assumes nothing.
pub mod Stereo
pub mod EditionOne
pub mod Standard
