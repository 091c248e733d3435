pub mod Columns
pub mod Hexadecimal
pub mod Replies
pub mod Rules
pub mod Tariffs
pub mod Worked
