pub mod Choice
pub mod Groups
pub mod Ranges
pub mod Runs
