-- The crates above cite `Splitting`, `Checking`, `Walking` and `Examples` too.
pub mod Splitting
mod Folding
mod Twins
mod Chaining
pub mod Checking
mod TwinRefusal
mod Runs
pub mod Walking
mod LineByLine
pub mod Examples
