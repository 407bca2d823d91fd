-- `Multiplying` and `Sequences` are for the crates above.
mod Powers
mod Orders
mod Counting
mod Roots
mod Primitive
mod Digits
pub mod Multiplying
pub mod Sequences
