pub mod Nearness
pub mod StandardHeaders
pub mod OnePacket
pub mod Spelled
pub mod Written
pub mod Asked
