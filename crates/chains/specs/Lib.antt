-- What the contracts of this crate cite. They are for the functions behind the calls: nothing here has to be believed of a call.
pub mod Hash
pub mod Chains
