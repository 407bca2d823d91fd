-- The promise of the call, that the index call is its case of all places, and examples.
pub mod Places
mod Examples
