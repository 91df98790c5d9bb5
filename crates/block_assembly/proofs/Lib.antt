pub mod Marks
pub mod Shorts
pub mod Zeros
pub mod Keeps
pub mod Counts
pub mod Covers
pub mod Wholes
pub mod Accepts
pub mod ReadPackets
pub mod VerdictLemmas
pub mod FewKept
pub mod Missed
pub mod Losses
pub mod Told
mod Intact
