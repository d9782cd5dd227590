-- The f32 nearest to a root. Assumes nothing.
pub mod Nearest
