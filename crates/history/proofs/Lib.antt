-- What is proved of histories. Assumes nothing.
pub mod Histories
