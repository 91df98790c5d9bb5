pub mod Formats
pub mod Pictures
pub mod Pixels
pub mod Laws
pub mod Heads
pub mod Worked
pub mod WorkedFormats
