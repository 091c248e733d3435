pub mod Writing
pub mod Queries
