pub mod Held
pub mod Values
pub mod Drawn
pub mod PlainRows
