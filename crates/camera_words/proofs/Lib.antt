pub mod Once
pub mod WordByWord
pub mod Further
pub mod AccessByAccess
