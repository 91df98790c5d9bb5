pub mod Noting
pub mod Marking
pub mod Filling
pub mod Writing
pub mod Whole
pub mod Steady
