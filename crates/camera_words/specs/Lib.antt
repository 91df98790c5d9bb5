pub mod Parts
pub mod Addresses
pub mod Words
pub mod SimulateWords
pub mod Writes
pub mod Choices
pub mod Receiving
pub mod Accesses
