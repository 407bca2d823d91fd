-- Refusals, checks and answers of one number: what every call cites, and all that has to be believed of them.
pub mod Refusals
pub mod Replies
