pub mod Behind
pub mod Lists
pub mod Once
pub mod Order
pub mod InTurn
pub mod PrivateParts
pub mod Places
pub mod Proper
