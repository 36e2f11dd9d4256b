pub mod Fields
pub mod Heif
pub mod Jxl
pub mod Walks
