pub mod Maps
pub mod Puts
