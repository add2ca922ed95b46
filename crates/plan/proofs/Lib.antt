pub mod Asking
pub mod Granting
pub mod Runs
pub mod Rooms
mod Filling
mod Giving
mod Descents
mod Reading
mod Linking
mod Measuring
mod Planning
mod Turning
