pub mod Turning
pub mod Widening
