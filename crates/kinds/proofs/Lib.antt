-- The lemmas that other crates may cite.
pub mod Days
pub mod Digits
