pub mod Places
pub mod Standing
pub mod Spans
pub mod Opened
