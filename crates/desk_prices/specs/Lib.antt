pub mod Hand
pub mod Series
pub mod Setting
pub mod Asking
pub mod Keywords
