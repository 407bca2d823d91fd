-- What the contracts of this crate cite. `Recurrence` and `Check` are what has to be believed of the calls; the others are cited
-- only by functions behind them.
pub mod Recurrence
pub mod Check
pub mod Linear
pub mod Prime
pub mod Kinds
