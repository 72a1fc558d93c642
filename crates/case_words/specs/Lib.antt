pub mod Words
pub mod Calls
pub mod Tables
pub mod Changes
pub mod Shown
