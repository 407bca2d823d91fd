-- The rule of the table, and examples.
mod OddPowers
mod Examples
