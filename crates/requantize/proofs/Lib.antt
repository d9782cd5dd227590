-- What is proved of requantize. Assumes nothing.
pub mod Minus
pub mod Size
pub mod Passed
pub mod Sizes
pub mod Lookup
pub mod Parts
pub mod Walk
pub mod Determined
pub mod Standard
