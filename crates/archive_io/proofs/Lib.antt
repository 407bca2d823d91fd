-- `Deciding` has what is told for all that was read.
pub mod Deciding
