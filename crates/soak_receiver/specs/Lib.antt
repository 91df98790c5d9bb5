pub mod Moves
pub mod Taking
pub mod Stocking
pub mod Standing
