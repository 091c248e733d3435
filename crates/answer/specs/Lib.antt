pub mod Bounds
pub mod Rows
pub mod Regions
pub mod Selecting
pub mod Outputs
pub mod Memos
pub mod Answering
pub mod Notes
