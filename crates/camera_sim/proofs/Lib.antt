pub mod Registers
pub mod Reading
pub mod Writing
pub mod Sizes
