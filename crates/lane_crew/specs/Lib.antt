pub mod Cells
pub mod Lane
pub mod Kinds
pub mod Tools
pub mod Reader
pub mod Did
pub mod Crew
pub mod Laws
