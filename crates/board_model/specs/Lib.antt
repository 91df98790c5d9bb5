pub mod Collected
pub mod Plain
pub mod Holdings
pub mod Steps
pub mod Gone
