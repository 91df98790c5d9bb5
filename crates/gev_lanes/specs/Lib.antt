pub mod LineRule
pub mod LineEnds
pub mod Sides
pub mod Messages
pub mod Acts
