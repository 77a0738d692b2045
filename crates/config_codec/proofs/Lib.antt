pub mod Changes
pub mod Deciding
pub mod Placing
pub mod Refusing
pub mod Returning
pub mod Suffixes
pub mod Taking
pub mod Testing
