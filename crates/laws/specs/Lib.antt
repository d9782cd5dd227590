-- What every stage is defined with. Nothing here knows of MP3. Assumes nothing.
pub mod Lists
pub mod Sum
pub mod Largest
pub mod Finite
pub mod Checks
pub mod Patterns
