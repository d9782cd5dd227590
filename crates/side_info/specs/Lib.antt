-- What a granule says of a channel. Assumes nothing.
pub mod Side
pub mod Editions
pub mod Kinds
