-- What the contracts of this crate and of those above it cite: `Affine`, the map and what it does, and `Trace`, the rounds of
-- a jump, also for whoever traces one.
pub mod Affine
pub mod Trace
