pub mod Fields
pub mod Heif
pub mod Jxl
pub mod JxlBoxes
pub mod JxlGrowth
pub mod Pieces
