pub mod Keeps
pub mod News
pub mod Acting
