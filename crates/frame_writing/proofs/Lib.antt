pub mod Written
pub mod OneTurn
pub mod AllTurns
pub mod Acts
