pub mod Pieces
pub mod ReplayLines
pub mod StepLine
pub mod CameraLines
pub mod SoakLine
pub mod LiveLine
pub mod AccountTexts
