-- What is proved of antialias. Assumes nothing.
pub mod Boundaries
pub mod Antialiased
pub mod Determined
