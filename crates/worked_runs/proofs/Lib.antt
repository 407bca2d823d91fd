-- The theorem about the rows.
pub mod WorkedRuns
