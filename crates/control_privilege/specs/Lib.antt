pub mod Control
pub mod Acts
