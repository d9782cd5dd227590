-- Laws that several proofs cite. Assumes nothing.
pub mod Parts
