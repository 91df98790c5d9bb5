pub mod Tables
pub mod Causes
