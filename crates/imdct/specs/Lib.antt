-- The windowed transform. Assumes nothing.
pub mod Imdct
pub mod Halves
pub mod Standard
