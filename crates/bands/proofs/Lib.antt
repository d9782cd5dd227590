-- What is proved of the bands. Assumes nothing.
pub mod Cover
pub mod Windows
pub mod ShortBands
pub mod Tables
pub mod ShortTurns
