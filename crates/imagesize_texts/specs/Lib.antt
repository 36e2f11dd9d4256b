pub mod Contents
pub mod Exr
pub mod Hdr
pub mod Pnm
pub mod Texts
pub mod Walks
