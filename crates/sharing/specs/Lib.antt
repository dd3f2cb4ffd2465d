pub mod Sharing
pub mod Limits
pub mod Amounts
pub mod Claims
pub mod Rows
pub mod Steps
