pub mod Texts
pub mod Carrying
pub mod Fitting
pub mod Made
pub mod Turns
