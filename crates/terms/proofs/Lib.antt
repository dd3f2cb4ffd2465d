-- The lemmas of this crate.
pub mod Tolerances
pub mod EachDay
