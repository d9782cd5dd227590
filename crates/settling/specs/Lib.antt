-- Runs of calls: demand 3, and what a history that is not finite does. Assumes nothing.
pub mod Settling
pub mod Overflow
