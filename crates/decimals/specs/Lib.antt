-- The digits of a number, and what the contracts of reading and writing a field cite.
pub mod Digits
pub mod Field
