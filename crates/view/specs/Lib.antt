pub mod Sizes
pub mod Views
pub mod Positions
pub mod Equality
