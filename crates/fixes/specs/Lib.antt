-- A deviate, and the fix of two of them: what the contracts of this crate cite, and all that has to be believed of the call.
pub mod Deviate
pub mod Fix
