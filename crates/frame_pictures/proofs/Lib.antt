pub mod Widths
pub mod Drawing
pub mod Bits
pub mod PixelPlaces
pub mod Truth
pub mod Heads
