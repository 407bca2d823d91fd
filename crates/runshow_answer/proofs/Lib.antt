-- `Answering` has what each way out of the answer shows, and `Deciding` what the question shows.
mod Answering
pub mod Deciding
mod Examples
