pub mod Refusals
pub mod Rooms
pub mod Trees
pub mod Loading
pub mod Building
pub mod Asked
pub mod Jobs
pub mod Reports
