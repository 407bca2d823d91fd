-- The plain player, what a record says of it, and lists of calls: all that has to be believed of the player.
pub mod PlainPlayer
pub mod Player
pub mod Calls
