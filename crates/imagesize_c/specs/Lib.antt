-- The numbers that the calls return, and what they write to the caller's buffers.
pub mod Lends
pub mod Numbers
pub mod Rounds
pub mod Status
pub mod Streams
pub mod Told
