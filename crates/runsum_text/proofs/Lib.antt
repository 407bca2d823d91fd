-- `Writing` has what each step of writing the text shows, and `Lengths` how long it is.
mod Writing
pub mod Lengths
