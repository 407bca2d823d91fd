-- `Lines`, `Reading` and `RoundTrip` are for the crates above too.
pub mod Lines
pub mod Reading
pub mod RoundTrip
mod Written
mod Examples
mod ReadExamples
