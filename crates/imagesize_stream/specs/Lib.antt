pub mod Given
pub mod Heard
pub mod Parts
pub mod Probe
pub mod Pushed
pub mod Skips
