pub mod InOrder
pub mod Spellings
pub mod Placed
