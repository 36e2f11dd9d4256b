-- What the readers of the tests do, by their models.
pub mod Readers
