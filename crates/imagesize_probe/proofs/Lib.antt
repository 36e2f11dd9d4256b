-- Lemmas of this crate.
pub mod Feeds
pub mod Lines
pub mod Spans
pub mod Writing
