pub mod Once
pub mod Orders
pub mod Places
pub mod ReadParts
