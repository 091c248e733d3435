pub mod Adding
pub mod Pairing
pub mod Storing
