pub mod Pieces
pub mod Forms
pub mod Commands
pub mod Answers
pub mod Written
pub mod Resends
pub mod Pendings
pub mod BodiesWritten
