mod Closing
mod Gathering
mod Runs
mod Rows
mod Filled
mod Writing
mod Promise
