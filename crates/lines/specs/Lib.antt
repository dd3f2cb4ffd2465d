pub mod Words
pub mod Fields
pub mod Dates
pub mod Readers
