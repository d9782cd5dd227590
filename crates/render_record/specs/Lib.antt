-- A record rendered. Assumes nothing.
pub mod RecordAnswer
pub mod EditionOne
