pub mod Entries
pub mod FirstByte
pub mod Stores
