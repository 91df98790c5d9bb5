pub mod Steps
pub mod Taking
pub mod Laws
pub mod WorkedCommands
