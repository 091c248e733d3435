pub mod Uniting
pub mod Pairing
pub mod Agreeing
pub mod Columnwise
