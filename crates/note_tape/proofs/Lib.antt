pub mod Ends
pub mod Tallies
pub mod Prints
pub mod Retired
pub mod Rounds
