pub mod Codecs
pub mod Numbered
pub mod Pointers
pub mod Tops
pub mod Vdevs
