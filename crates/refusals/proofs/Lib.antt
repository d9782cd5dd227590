-- What the numbers of the refusals tell, and a line of checks. Assumes nothing.
pub mod Numbers
pub mod Line
