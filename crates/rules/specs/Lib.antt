pub mod Bands
pub mod Prices
pub mod Monthly
pub mod Formulas
pub mod Exact
pub mod Amounts
