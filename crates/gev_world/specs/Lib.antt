pub mod Seen
pub mod Turns
pub mod Ends
pub mod Hosts
pub mod Rounds
pub mod Takes
pub mod Runs
