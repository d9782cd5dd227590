-- The 4/3 powers. Assumes nothing.
pub mod Power
