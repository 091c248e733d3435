pub mod Sizes
pub mod Assembling
