-- `PartOfLine` has what each step of finding a line shows, for the crates above too.
pub mod PartOfLine
mod Examples
