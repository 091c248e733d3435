pub mod Canonical
pub mod Same
