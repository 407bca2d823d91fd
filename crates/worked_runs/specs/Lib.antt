-- The proved rows of document 01 as a table, and the theorem about them.
pub mod WorkedRuns
