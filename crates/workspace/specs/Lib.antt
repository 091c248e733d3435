pub mod Blocks
pub mod Rows
