pub mod Block
pub mod Memory
pub mod Name
pub mod Outside
pub mod Ranges
