pub mod Lists
pub mod Refused
pub mod Splits
pub mod Claimed
pub mod Alone
pub mod Among
