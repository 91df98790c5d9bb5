pub mod Several
pub mod Announced
pub mod Revoked
pub mod Emptied
