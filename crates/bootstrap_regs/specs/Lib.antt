pub mod Addresses
pub mod Table
pub mod Registers
pub mod Words
pub mod Changes
pub mod Writables
pub mod Laws
