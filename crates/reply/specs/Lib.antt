pub mod Writing
pub mod Kinds
