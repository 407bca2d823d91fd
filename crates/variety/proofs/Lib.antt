-- The variety of a run, and examples.
pub mod Varieties
mod Examples
