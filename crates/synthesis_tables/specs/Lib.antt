-- The tables of synthesis: the window and the matrixing, as bit patterns and as floats. Assumes nothing.
pub mod Window
pub mod Matrixing
pub mod Symmetries
