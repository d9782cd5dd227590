-- Laws that several proofs cite, and what a reader takes from the texts. Assumes nothing.
pub mod Texts
pub mod Digits
pub mod Reading
