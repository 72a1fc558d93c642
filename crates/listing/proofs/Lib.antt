pub mod Ranges
pub mod Growing
pub mod Branching
pub mod Leftward
pub mod Remaining
pub mod Picking
pub mod Reading
