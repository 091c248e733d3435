pub mod Widths
pub mod Asking
pub mod Laying
pub mod Checking
pub mod Operations
