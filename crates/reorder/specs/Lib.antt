-- Reorder. Assumes nothing.
pub mod Reorder
pub mod EditionOne
pub mod Standard
