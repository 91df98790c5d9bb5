pub mod Players
pub mod Pool
pub mod Texts
