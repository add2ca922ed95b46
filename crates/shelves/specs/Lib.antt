pub mod Kinds
pub mod Meaning
pub mod Sieving
pub mod Slots
pub mod Tables
