pub mod Prepared
pub mod Kinds
pub mod Stops
pub mod Homes
pub mod HomeLaws
pub mod Crews
