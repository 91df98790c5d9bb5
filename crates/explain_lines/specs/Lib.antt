pub mod Marks
pub mod Dropping
pub mod Retiring
pub mod Asking
pub mod Hearing
pub mod Telling
