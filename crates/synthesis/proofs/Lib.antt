-- What is proved of the stage, and the laws that its proofs share. Assumes nothing.
pub mod Gathered
pub mod Blocks
pub mod Queue
pub mod Levels
pub mod Forgets
pub mod Determined
