pub mod Ids
pub mod Quiet
pub mod Turns
pub mod OneLook
pub mod AllLooks
pub mod OfKind
pub mod Whole
pub mod Acts
