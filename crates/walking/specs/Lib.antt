pub mod InMemory
pub mod Walked
pub mod Reached
pub mod Between
pub mod Ranged
pub mod Surveyed
