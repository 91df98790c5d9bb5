pub mod Playing
pub mod Script
pub mod Standing
pub mod Scripting
pub mod Datagrams
pub mod Laws
pub mod Traces
