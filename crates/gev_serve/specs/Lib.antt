pub mod Wires
pub mod Turns
pub mod Sending
pub mod Serving
pub mod Kinds
pub mod Work
