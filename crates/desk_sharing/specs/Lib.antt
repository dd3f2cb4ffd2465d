pub mod Figures
pub mod Sharings
