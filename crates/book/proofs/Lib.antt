pub mod Records
pub mod Totals
pub mod Search
pub mod Balance
pub mod Props
pub mod Runs
pub mod Logs
pub mod Tallies
