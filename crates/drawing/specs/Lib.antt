pub mod Drawing
pub mod Searching
pub mod Masking
pub mod Scenes
