-- `Digits` has the laws of `digits_of`, for the crates above too; `Reading` and `Writing` what each step of the functions shows.
pub mod Digits
mod Reading
mod Writing
mod Examples
