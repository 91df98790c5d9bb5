pub mod Strangers
pub mod Wide
pub mod States
pub mod Reads
