pub mod Texts
pub mod Names
pub mod Moments
pub mod Nodes
pub mod Paths
pub mod Spelled
pub mod Conflicted
