pub mod Causes
pub mod Disk
pub mod Ends
pub mod Goes
pub mod Links
