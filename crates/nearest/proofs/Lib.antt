-- What is proved of the f32 nearest to a root. Assumes nothing.
pub mod Order
pub mod Value
pub mod Test
pub mod Nearest
pub mod FourThirds
