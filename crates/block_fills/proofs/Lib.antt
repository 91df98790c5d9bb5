pub mod Tries
pub mod Acquisitions
