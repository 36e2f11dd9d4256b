pub mod Opened
pub mod Saying
pub mod Sized
pub mod Plain
pub mod Reaches
pub mod Steps
pub mod Firsts
pub mod Far
