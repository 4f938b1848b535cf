pub mod Indexes
pub mod Kept
pub mod Orders
pub mod ReadParts
pub mod Spreads
pub mod Vaults
mod Stopping
