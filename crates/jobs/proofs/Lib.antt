mod Splitting
mod Counting
