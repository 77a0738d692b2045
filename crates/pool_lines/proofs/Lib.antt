pub mod Splitting
pub mod Numbers
pub mod Tokens
pub mod Pairs
pub mod TopsOfWords
pub mod Forms
pub mod Texts
