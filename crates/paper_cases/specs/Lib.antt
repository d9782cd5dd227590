-- Document 01's proved cases, and the points where the editions part. Assumes nothing.
pub mod Cases
pub mod Editions
