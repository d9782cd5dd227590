-- Laws of the replay's counts. Assumes nothing.
pub mod Misses
