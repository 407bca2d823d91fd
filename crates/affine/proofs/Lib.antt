-- For the crates above: `Walking`, on maps of some steps; `Trace`, where a jump stands after k rounds and what its end is;
-- `TraceNumbers`, a jump's states as computed numbers. `TraceExamples` computes one jump, for the elements that it passes too.
-- `Converse` shows how much the promise of rounds says.
pub mod Walking
pub mod Trace
pub mod TraceNumbers
pub mod TraceExamples
mod Converse
