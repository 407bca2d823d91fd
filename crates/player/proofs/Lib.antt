-- Laws of the player's calls, one by one and in lists, and examples.
pub mod Promises
pub mod Calls
mod Examples
