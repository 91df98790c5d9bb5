pub mod Spans
pub mod Queue
pub mod Held
pub mod Writing
