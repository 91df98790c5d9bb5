pub mod Texts
pub mod Turns
pub mod HandsOut
pub mod Work
pub mod Pieces
pub mod FrameLine
pub mod ReceiveLine
