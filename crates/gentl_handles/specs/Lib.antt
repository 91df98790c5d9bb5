pub mod Handles
pub mod Opening
pub mod Closing
pub mod Calls
pub mod Storing
