-- What the definitions of the crates above mean, for any sequence of numbers. All but `Places` and `Search` is what has to be
-- believed of the calls; these two, and `Located`, `Absent`, `Ahead`, `Alone`, `Recurring` and `arcs_share` at the ends of `Index`,
-- `Gap`, `Occurrences` and `Common`, are for the functions behind them.
pub mod Least
pub mod Orbit
pub mod Index
pub mod Gap
pub mod Occurrences
pub mod Distinct
pub mod Common
pub mod Places
pub mod Search
