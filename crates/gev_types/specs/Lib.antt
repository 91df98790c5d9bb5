pub mod Limits
pub mod Filling
pub mod FrameSize
pub mod Placing
pub mod BufInside
pub mod Lending
pub mod Reasons
