-- What is proved of stereo. Assumes nothing.
pub mod Determined
pub mod EditionOne
pub mod Standard
