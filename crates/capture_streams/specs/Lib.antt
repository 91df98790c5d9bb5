pub mod Signs
pub mod Streams
pub mod Texts
pub mod Pieces
pub mod Laws
pub mod Dropped
pub mod Begins
pub mod Rows
