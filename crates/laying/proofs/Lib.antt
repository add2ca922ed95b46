mod Choosing
mod Heads
mod Reading
mod Pasting
mod Steps
mod Siblings
mod Sourcing
mod Placing
