pub mod Preparing
pub mod Children
pub mod Listing
pub mod Listed
pub mod Deciding
