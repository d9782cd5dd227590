-- Numbers out of bytes and into bytes. Assumes nothing.
pub mod Bytes
