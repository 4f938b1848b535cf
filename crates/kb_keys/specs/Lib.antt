pub mod Bundles
pub mod Halves
pub mod Laws
pub mod Policies
pub mod Rings
pub mod Secrets
pub mod Members
