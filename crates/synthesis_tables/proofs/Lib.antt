-- The laws. Assumes nothing.
pub mod Rows
pub mod Symmetries
