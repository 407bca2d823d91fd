-- The walk that adds up, what the definition means, and examples.
pub mod Summaries
mod Examples
