-- What is proved of hybrid synthesis. Assumes nothing.
pub mod Windows
pub mod Halves
pub mod Unused
pub mod Determined
pub mod EditionOne
pub mod Standard
