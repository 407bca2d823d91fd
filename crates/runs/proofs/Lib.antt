-- Laws of runs, and examples.
pub mod Runs
pub mod Examples
