pub mod Sent
pub mod Pushes
pub mod Shelf
pub mod Laws
