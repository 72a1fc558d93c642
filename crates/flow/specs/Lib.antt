pub mod Chains
pub mod Splits
pub mod Excess
pub mod Rules
pub mod Dividing
pub mod Listing
pub mod Promises
pub mod Worked
