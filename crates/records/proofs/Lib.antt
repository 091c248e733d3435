pub mod Numbers
pub mod Firsts
pub mod Forms
pub mod Depths
pub mod Steps
pub mod Reading
pub mod Leading
