-- `Refusals`, `Elements` and `Walking` are for the crates above too.
pub mod Refusals
pub mod Elements
pub mod Walking
pub mod Trace
mod Examples
mod TraceExamples
