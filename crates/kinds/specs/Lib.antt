-- The definitions that the contracts cite.
pub mod Calendar
pub mod Refusals
pub mod Texts
