-- What the contracts of this crate cite, and all that has to be believed of the calls.
pub mod Orbit
pub mod Index
