pub mod Behind
pub mod Fronts
pub mod Walked
