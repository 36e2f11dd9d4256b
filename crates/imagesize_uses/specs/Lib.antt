pub mod Cache
pub mod Document
pub mod Gate
pub mod Remote
pub mod Texture
pub mod Upload
