pub mod Pieces
pub mod Ended
pub mod Names
pub mod Blocks
