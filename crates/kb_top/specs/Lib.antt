pub mod Codes
pub mod Inputs
pub mod Replies
pub mod Summaries
pub mod Outcomes
pub mod Asking
