pub mod Passing
pub mod Sweeps
pub mod Tops
pub mod Totals
pub mod Widened
pub mod Counted
pub mod Flat
