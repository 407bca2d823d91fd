-- What the contracts of this crate cite: all of it has to be believed of the call.
pub mod Lookup
