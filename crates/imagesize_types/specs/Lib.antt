pub mod Comparisons
pub mod Head
pub mod Largest
pub mod Order
pub mod Ranks
pub mod Sides
pub mod Table
