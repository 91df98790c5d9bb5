pub mod Starting
pub mod Ending
pub mod Reader
pub mod Frames
pub mod Bound
pub mod Receives
pub mod Answers
