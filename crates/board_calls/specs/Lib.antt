pub mod Ends
pub mod Loans
pub mod Rounds
pub mod Calls
pub mod Infos
pub mod Modes
pub mod Dropped
pub mod Laws
