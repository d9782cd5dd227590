-- Laws that several proofs cite, and the round trips. Assumes nothing.
pub mod Filled
pub mod RoundTrip
