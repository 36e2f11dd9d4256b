pub mod Asking
pub mod Beginning
pub mod Called
pub mod Endless
pub mod Reaching
pub mod Keeping
pub mod Needing
pub mod Streaming
