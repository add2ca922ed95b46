pub mod Verdicts
pub mod Sheets
pub mod Left
pub mod Jobs
