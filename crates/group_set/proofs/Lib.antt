pub mod Among
pub mod Listed
pub mod Placed
pub mod Sets
pub mod Maximal
pub mod Parts
pub mod Upto
pub mod Counted
