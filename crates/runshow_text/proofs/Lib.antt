-- `Writing` has what each step of writing numbers shows, `Chunks` what each chunk shows, for printing too, and `Examples` what is
-- written of one run.
mod Writing
pub mod Chunks
mod Examples
