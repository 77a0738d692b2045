pub mod Answering
pub mod BlockNames
pub mod Naming
pub mod Parts
pub mod Scripts
pub mod Standing
pub mod Telling
