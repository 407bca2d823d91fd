-- What the contracts of this crate cite, and all that has to be believed of the call.
pub mod Shared
