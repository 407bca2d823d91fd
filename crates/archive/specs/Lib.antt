-- What the contracts of this crate cite. All but `Parts` and `Chained` is what has to be believed of the calls; these two are
-- cited by functions behind them only.
pub mod Archive
pub mod Check
pub mod Parts
pub mod Chained
