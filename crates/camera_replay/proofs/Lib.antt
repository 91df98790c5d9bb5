pub mod Decoding
pub mod LineReads
pub mod InPlace
pub mod OneReport
pub mod Giving
pub mod Telling
pub mod WorkedScripts
pub mod ToldLines
