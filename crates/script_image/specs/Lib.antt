pub mod Taking
pub mod Ends
pub mod Found
pub mod Drawing
pub mod Lines
pub mod Showing
pub mod Steps
pub mod Laws
