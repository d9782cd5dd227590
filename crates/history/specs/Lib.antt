-- The history. Assumes nothing.
pub mod History
