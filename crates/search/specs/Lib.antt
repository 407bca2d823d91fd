-- What the contracts of this crate cite, for the functions behind the calls.
pub mod Settling
