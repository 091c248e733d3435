pub mod Numbers
pub mod Filtering
pub mod Register
pub mod Pushing
