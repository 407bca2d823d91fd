-- What the contracts of this crate cite. `Line` is what has to be believed of a line, `Ascii` of a text, and `FrontWritten` of
-- `Codec` of what the programs write; the rest of `Codec` is cited by the functions behind the calls.
pub mod Line
pub mod Ascii
pub mod Codec
