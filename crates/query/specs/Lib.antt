pub mod Kinds
pub mod Operations
pub mod Plans
