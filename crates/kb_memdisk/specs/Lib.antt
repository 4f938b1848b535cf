pub mod Cells
pub mod Kept
pub mod Memory
pub mod Pages
pub mod Rows
