-- The numbers of a run, one after the other, and examples.
pub mod Remakes
mod Examples
