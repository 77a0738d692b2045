pub mod Changes
pub mod Children
pub mod Edits
pub mod Leaf
pub mod Tree
