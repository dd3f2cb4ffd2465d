-- The lemmas that readers of commands cite.
pub mod Cuts
pub mod Calendar
pub mod Digits
pub mod Exits
pub mod Rows
