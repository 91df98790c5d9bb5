pub mod Sendings
pub mod Telling
pub mod Receiving
pub mod Giving
pub mod Growing
