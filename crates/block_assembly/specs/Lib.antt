pub mod PacketIds
pub mod Shortest
pub mod Assembly
pub mod Verdicts
pub mod Steps
pub mod Accounts
pub mod Laws
pub mod Zeroed
