pub mod TakenIds
pub mod Looks
pub mod Applied
pub mod Kinds
pub mod History
pub mod Work
