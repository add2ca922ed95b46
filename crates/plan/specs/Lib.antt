pub mod Columns
pub mod Laid
pub mod Lists
pub mod Room
pub mod Table
