pub mod Seen
pub mod Words
pub mod Doing
pub mod Obeying
pub mod Fetching
