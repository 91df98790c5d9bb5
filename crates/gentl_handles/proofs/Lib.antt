pub mod Stored
pub mod Sortings
pub mod Ordered
pub mod Histories
