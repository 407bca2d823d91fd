-- `Numbers` has the laws of `specs/`, `Codec` what each step of the functions of `line` shows, and `FrontWriting` what is
-- written one behind the other.
pub mod Numbers
pub mod Codec
pub mod FrontWriting
mod Examples
