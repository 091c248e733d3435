pub mod Columns
pub mod Layout
pub mod Slots
pub mod Books
pub mod Walks
