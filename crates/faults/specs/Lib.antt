pub mod Refusals
pub mod Sentences
pub mod Places
