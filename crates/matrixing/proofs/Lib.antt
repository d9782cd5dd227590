-- The laws that the proofs share. Assumes nothing.
pub mod Mirrored
pub mod Slot
pub mod Added
pub mod Unfolded
pub mod Queue
