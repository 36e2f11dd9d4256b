pub mod Blocks
mod Buffered
pub mod Counted
mod Cursors
pub mod Filling
pub mod HeldReads
pub mod Layers
pub mod Leaving
pub mod Openings
pub mod Standings
pub mod TextReads
pub mod Windows
