pub mod Prefixes
pub mod Cells
pub mod Equality
