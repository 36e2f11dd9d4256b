-- What the program prints.
pub mod Line
pub mod Status
pub mod Run
