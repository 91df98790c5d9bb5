pub mod Looping
pub mod Simulations
pub mod Exacts
