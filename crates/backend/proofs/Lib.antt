-- What is proved of the whole granule. Assumes nothing.
pub mod Answers
pub mod Determined
pub mod Passed
pub mod Used
pub mod EditionOne
