pub mod Answering
pub mod Births
pub mod Devices
pub mod Fitness
pub mod Machine
pub mod Records
pub mod Runs
pub mod Tracking
