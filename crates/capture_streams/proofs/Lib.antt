pub mod Listed
pub mod Counted
pub mod Within
pub mod Leaders
pub mod Dropped
pub mod Begins
pub mod Rows
