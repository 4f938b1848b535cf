pub mod Dirs
pub mod Parses
pub mod Laws
