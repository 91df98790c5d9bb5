pub mod Leaders
pub mod Waiting
