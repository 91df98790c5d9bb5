pub mod Sends
pub mod Ends
pub mod Submitting
pub mod Unused
pub mod Limits
