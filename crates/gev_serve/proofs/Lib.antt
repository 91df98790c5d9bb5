pub mod Partial
pub mod Draining
pub mod Parting
pub mod Turning
pub mod Acts
