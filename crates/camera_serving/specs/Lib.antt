pub mod Turns
pub mod Pacing
pub mod Turning
pub mod Laws
pub mod Simulated
