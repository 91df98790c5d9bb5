pub mod Giving
pub mod Rounds
pub mod Grabbing
pub mod Sweeping
pub mod Announcing
pub mod Emptying
pub mod Running
pub mod Informing
