mod Branches
mod Depths
mod Points
