pub mod Counts
pub mod Files
pub mod Opens
pub mod Splits
pub mod Stops
pub mod Laws
