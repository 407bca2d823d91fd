-- The rule of k steps, the lanes of a run, and the line of one: what the contracts of this crate cite, and all that has to be
-- believed of the calls but for `rule_of`, which is for functions behind them.
pub mod Rule
pub mod Lane
pub mod WriteLane
