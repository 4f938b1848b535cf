pub mod EntryTexts
pub mod Reasons
pub mod RowTexts
pub mod LineTexts
