pub mod Telling
pub mod Counting
pub mod Tells
pub mod Rounds
