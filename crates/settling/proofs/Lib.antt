-- What is proved of runs of calls. Assumes nothing.
pub mod Doors
pub mod Settled
pub mod Overflow
