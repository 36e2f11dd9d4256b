pub mod Png
