pub mod Marks
pub mod Replayed
pub mod Recorded
