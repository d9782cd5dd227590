-- The whole granule. Assumes nothing.
pub mod Whole
pub mod Calls
pub mod EditionOne
