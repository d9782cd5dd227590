-- Records of 2,448 bytes. Assumes nothing.
pub mod Fields
pub mod Record
