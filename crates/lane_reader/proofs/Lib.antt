pub mod Looping
pub mod Hearings
pub mod Keeping
pub mod OneTurn
pub mod Turns
pub mod Bringing
