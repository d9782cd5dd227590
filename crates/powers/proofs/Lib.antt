-- What is proved of the powers and the gains. Assumes nothing.
pub mod Floor
pub mod Signs
pub mod Gains
pub mod Products
