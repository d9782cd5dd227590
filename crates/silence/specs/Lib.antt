-- Subbands of zeros. Assumes nothing.
pub mod Silence
