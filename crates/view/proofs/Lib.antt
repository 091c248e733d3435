pub mod Memory
pub mod Same
