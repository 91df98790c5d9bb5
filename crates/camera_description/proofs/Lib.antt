pub mod Alone
pub mod Hearing
pub mod Pieces
pub mod Whole
