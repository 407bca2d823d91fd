-- The position in one run, the walk over the lines, and that the definition meets demand 3.
mod PositionInRun
mod Walk
pub mod EarliestLocation
mod Examples
