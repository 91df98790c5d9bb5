pub mod Generator
pub mod Frames
pub mod Laws
