-- What the contracts of this crate and of those above it cite.
pub mod Alpha
pub mod Congruence
pub mod Newton
