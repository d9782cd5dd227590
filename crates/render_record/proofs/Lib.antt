-- What is proved of a record's answer. Assumes nothing.
pub mod Answers
pub mod Determined
pub mod Unwritten
pub mod EditionOne
