-- Laws of the loops of this crate.
pub mod Rounds
