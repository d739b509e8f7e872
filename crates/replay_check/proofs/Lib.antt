-- What a list of tickets comes to is one thing: what its tickets tell, one after the other.
pub mod OneReplay
-- The moves of a log's entries, one after the other.
pub mod Making
