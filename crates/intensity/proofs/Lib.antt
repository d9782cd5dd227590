-- What is proved of intensity stereo. Assumes nothing.
pub mod Steps
pub mod Runs
pub mod Fit
pub mod Places
pub mod ByKind
pub mod Positions
pub mod EditionOne
