-- Numbers as text, and the line that says which record was refused. Assumes nothing.
pub mod Digits
pub mod Line
