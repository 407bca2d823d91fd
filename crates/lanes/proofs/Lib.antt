-- Laws of counting, of the rule of k steps, of the conditions, of lanes, and of the calls; and examples.
pub mod Counting
pub mod Rules
pub mod Conditions
pub mod Lanes
pub mod Promises
mod Examples
