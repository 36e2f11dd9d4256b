pub mod Largest
pub mod Lawful
