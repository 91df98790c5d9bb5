pub mod LanesTurns
pub mod Asking
pub mod Turned
pub mod Reads
pub mod Brought
pub mod Laws
