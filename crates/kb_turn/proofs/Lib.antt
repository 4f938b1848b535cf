pub mod Crossing
pub mod Keeping
pub mod Lists
pub mod Meets
pub mod Weights
pub mod Whole
