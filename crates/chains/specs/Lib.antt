pub mod Faults
pub mod Stops
pub mod Certainty
