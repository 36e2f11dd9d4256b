pub mod Ends
pub mod Joins
pub mod Limits
pub mod Rounds
pub mod Spans
pub mod Uploads
