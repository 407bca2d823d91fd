-- What a run is, what it shows, and when it is refused: all but `FromFirst`, which is for functions behind the calls, has to be
-- believed of it.
pub mod Run
