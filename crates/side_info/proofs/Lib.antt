-- What is proved of the block types. Assumes nothing.
pub mod LongKinds
pub mod Within
