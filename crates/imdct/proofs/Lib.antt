-- What is proved of the windowed transform. Assumes nothing.
pub mod Overwritten
pub mod Mirrored
pub mod Halved
pub mod Unfolding
pub mod Lent
pub mod Landing
pub mod Adding
pub mod Tables
pub mod Silent
pub mod Standard
