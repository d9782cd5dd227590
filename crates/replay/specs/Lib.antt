-- What the replay of the Rust's answers counts. Assumes nothing.
pub mod Differing
pub mod Misses
pub mod Near
