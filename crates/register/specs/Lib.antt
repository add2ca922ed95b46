pub mod Limits
pub mod Shape
pub mod Questions
pub mod Memory
pub mod Answers
pub mod Register
