pub mod Atc
pub mod Dds
pub mod Pkm
pub mod Pvrtc
pub mod Sides
pub mod Tga
pub mod Webp
