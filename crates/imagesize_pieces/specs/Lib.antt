pub mod Pending
pub mod Stream
