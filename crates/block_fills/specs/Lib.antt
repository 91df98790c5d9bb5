pub mod Fills
pub mod Laws
