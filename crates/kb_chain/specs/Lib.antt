pub mod Revisions
pub mod Parses
pub mod Privates
pub mod Checks
pub mod Laws
