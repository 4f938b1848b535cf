pub mod Held
pub mod Passes
pub mod Rule
pub mod Steps
pub mod Views
