pub mod Lines
pub mod Stops
pub mod LineStops
pub mod Excess
