pub mod Numbered
pub mod Asking
pub mod Apart
