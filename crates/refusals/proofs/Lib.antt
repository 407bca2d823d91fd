-- Laws of refusals, for the crates above.
pub mod Conditions
pub mod Replies
