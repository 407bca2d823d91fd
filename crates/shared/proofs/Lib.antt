-- What two runs share, and examples.
mod Rules
pub mod Shares
mod Examples
