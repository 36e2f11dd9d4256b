pub mod Families
pub mod Statuses
pub mod TypeNumbers
pub mod Walks
