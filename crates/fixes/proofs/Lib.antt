-- Laws of floats by the fractions that they are, of the deviates, and of the call; and examples.
pub mod Floats
pub mod ExactDeviates
pub mod Promises
mod Examples
