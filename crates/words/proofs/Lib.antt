-- `Congruence` and `Places` are for the crates above. The other files are this crate's own step laws.
pub mod Congruence
pub mod Places
mod Halves
mod Iteration
pub mod PowersOfTwo
