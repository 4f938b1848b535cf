pub mod Images
pub mod LogList
pub mod Pieces
pub mod State
pub mod Steps
