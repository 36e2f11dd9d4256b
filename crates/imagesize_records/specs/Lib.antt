pub mod FirstReads
pub mod Steps
pub mod Streamed
