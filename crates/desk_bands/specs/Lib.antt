pub mod Bases
pub mod Setting
pub mod Asking
pub mod Keywords
