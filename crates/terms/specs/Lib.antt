pub mod Tolerance
pub mod Months
pub mod Base
pub mod Errors
pub mod Schedule
pub mod Series
pub mod PriceRules
