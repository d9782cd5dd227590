-- The bands of the three tables. Assumes nothing.
pub mod Starts
pub mod Standard
pub mod Bands
pub mod Read
