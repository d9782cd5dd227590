-- That settling's assumptions can be met, and its bounds not be sharpened. Assumes nothing.
pub mod Silence
pub mod Witness
pub mod OneIsNotEnough
pub mod Broken
