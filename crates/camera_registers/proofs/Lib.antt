pub mod Order
pub mod Made
pub mod Told
