-- `Answering` has what each way out of the answer shows, and `Deciding` what the question and an archive that is too long show.
mod Answering
pub mod Deciding
mod Examples
