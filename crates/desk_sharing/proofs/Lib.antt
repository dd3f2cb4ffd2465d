pub mod Listing
mod Telling
