pub mod Texts
pub mod Runs
pub mod Given
pub mod Once
pub mod Spelled
