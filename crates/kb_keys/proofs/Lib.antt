pub mod Giving
pub mod Masks
pub mod Places
