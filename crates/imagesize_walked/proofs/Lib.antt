pub mod Ico
pub mod Ilbm
pub mod Jpeg
pub mod Tiff
