pub mod Runs
pub mod Outcomes
pub mod Turns
pub mod Simulation
pub mod Verdicts
