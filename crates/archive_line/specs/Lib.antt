-- What has to be believed of the calls.
pub mod Line
