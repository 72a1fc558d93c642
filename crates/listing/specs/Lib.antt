pub mod Nexts
pub mod Growth
pub mod After
pub mod Walks
pub mod Picks
pub mod Wholes
