pub mod Cuts
pub mod Numbers
pub mod Tokens
pub mod Pairs
pub mod Forms
pub mod Texts
