-- What is proved of subbands of zeros. Assumes nothing.
pub mod Zero
pub mod Silent
