-- What the contracts of this crate cite, and what has to be believed of the program.
pub mod Text
