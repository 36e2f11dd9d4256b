pub mod Alike
pub mod Ascii
pub mod Exr
pub mod Hdr
pub mod Pnm
pub mod Texts
pub mod Walks
pub mod Words
