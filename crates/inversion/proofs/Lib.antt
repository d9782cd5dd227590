-- What is proved of inversion. Assumes nothing.
pub mod SignBit
pub mod Clear
pub mod Negated
pub mod Inverted
pub mod Determined
