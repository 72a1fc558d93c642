pub mod Tables
pub mod Filling
pub mod Sources
pub mod Rows
pub mod Places
