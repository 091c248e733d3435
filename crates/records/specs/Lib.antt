pub mod RecordKinds
pub mod Firsts
pub mod Terms
pub mod Saying
