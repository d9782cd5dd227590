-- That all of the cases hold, and that the editions part at each point. Assumes nothing.
pub mod Hold
pub mod Places
pub mod Outputs
pub mod Apart
