pub mod Silent
pub mod Started
pub mod States
