pub mod OneStep
pub mod Joining
pub mod Fronts
pub mod Refusals
