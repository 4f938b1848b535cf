pub mod Places
pub mod Prepared
pub mod Children
pub mod Shows
pub mod Waiting
pub mod Laws
pub mod FitTests
