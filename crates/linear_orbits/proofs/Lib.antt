-- A linear generator as a sequence, its orbit and its indices; `Elements` and `LinearOrbits` are for the crates above too.
pub mod Elements
pub mod LinearOrbits
pub mod Begins
pub mod LinearIndices
