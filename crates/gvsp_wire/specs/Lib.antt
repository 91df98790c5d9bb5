pub mod Wire
pub mod Plain
pub mod Reading
pub mod Writing
pub mod View
pub mod Laws
pub mod WorkedPackets
