-- What is proved of reorder. Assumes nothing.
pub mod Triples
pub mod Determined
pub mod WindowOrder
pub mod EditionOne
pub mod Standard
