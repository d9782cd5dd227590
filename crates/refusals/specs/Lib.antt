-- The table of refusals. Assumes nothing.
pub mod Refusals
