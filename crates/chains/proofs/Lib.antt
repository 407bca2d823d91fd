-- `Linking` and `Hashing` are for the crates above.
mod Comparing
mod Walking
pub mod Linking
pub mod Hashing
mod Examples
