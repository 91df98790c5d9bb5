pub mod Readings
pub mod Taking
pub mod Waiting
pub mod Preparing
pub mod Acting
pub mod Sharing
