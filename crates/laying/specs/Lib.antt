pub mod Laying
pub mod Merging
pub mod Numbering
pub mod Children
