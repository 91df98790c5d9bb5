pub mod Readings
pub mod Turns
pub mod Waits
pub mod Kinds
pub mod Shares
