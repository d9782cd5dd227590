-- The tables of the transform, of antialias and of stereo: what is printed or given by a formula, as bit patterns and as floats, and the formulas of stereo's numbers. Assumes nothing.
pub mod Cosines
pub mod Antialias
pub mod Stereo
pub mod Surd
pub mod Tangent
pub mod Ratios
pub mod Symmetries
