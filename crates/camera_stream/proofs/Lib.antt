pub mod Ranges
pub mod Packets
pub mod Steps
pub mod Queueing
pub mod Counts
pub mod Calls
