pub mod Reading
pub mod CallSteps
pub mod Repeats
pub mod Shown
