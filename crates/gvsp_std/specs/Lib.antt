pub mod Blocks
pub mod Standard
pub mod Narrowed
pub mod Widening
pub mod Asking
pub mod Laws
pub mod WorkedStandard
