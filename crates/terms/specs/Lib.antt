pub mod Keys
pub mod Order
pub mod Unions
pub mod Ors
pub mod Lexes
