-- The 4/3 powers and the gains. Assumes nothing.
pub mod Quarters
pub mod Powers
