pub mod Books
pub mod Finding
pub mod Order
pub mod Drawing
pub mod Holding
