pub mod ExitStatus
pub mod StatusTexts
