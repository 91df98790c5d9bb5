mod Resolving
pub mod Pieces
pub mod OneCapture
pub mod Coming
pub mod Walking
pub mod ReaderSteps
pub mod Bytes
