pub mod Network
pub mod MakeText
pub mod Writing
pub mod Laws
