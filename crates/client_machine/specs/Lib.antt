pub mod Times
pub mod Commands
pub mod Setup
pub mod Machine
pub mod Events
pub mod Laws
pub mod WorkedTimes
