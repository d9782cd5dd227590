-- The laws. Assumes nothing.
pub mod Determined
pub mod Whole
pub mod First
pub mod Second
