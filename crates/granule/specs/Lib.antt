-- What a granule is refused for, how many outputs it has, and a silent part. Assumes nothing.
pub mod Granule
