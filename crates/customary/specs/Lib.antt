-- What the contract of the call cites, and all that has to be believed of it.
pub mod Customary
