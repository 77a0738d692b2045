pub mod Faults
pub mod Fields
pub mod Flags
pub mod Pieces
pub mod Ranges
pub mod Reading
pub mod Spelling
pub mod Validity
