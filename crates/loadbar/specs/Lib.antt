pub mod Words
pub mod Scripts
pub mod Listing
pub mod Runs
