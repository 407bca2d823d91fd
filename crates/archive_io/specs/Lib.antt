-- What the contracts of this crate and of the programs' crates cite. It has to be believed of the programs, but for what `Input`
-- says of how many bytes are enough.
pub mod Source
pub mod Decision
pub mod Input
