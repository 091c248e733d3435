pub mod Truths
pub mod Plains
pub mod Stacks
