pub mod Url
pub mod Memory
pub mod Describing
pub mod Locating
pub mod Laws
