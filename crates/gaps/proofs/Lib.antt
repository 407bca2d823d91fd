-- The gap of two numbers, the signed count of the machine, and examples.
pub mod Gaps
mod SignedCounts
mod Examples
