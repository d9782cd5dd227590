-- The laws. Assumes nothing.
pub mod Rows
pub mod Symmetries
pub mod Surd
pub mod Fractions
pub mod Ratios
pub mod HalfRoot
