pub mod Hands
pub mod Asking
pub mod Turns
pub mod Replies
