pub mod Causes
pub mod Clash
pub mod Copies
pub mod Healing
pub mod Mirror
pub mod Reading
pub mod Reads
pub mod Seen
