-- What the contracts of this crate cite. They are for the functions behind the calls: nothing here has to be believed of a call.
pub mod Power
pub mod Prime
pub mod Roots
pub mod Residues
pub mod Logarithm
