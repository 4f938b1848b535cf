pub mod Laws
pub mod Patches
pub mod Refusals
pub mod Tells
pub mod Ways
