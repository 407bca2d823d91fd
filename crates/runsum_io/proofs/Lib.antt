-- `Deciding` has what is printed for all that was read.
mod Deciding
mod Examples
