-- What holds of replays.
pub mod Laws
-- What a list of tickets comes to on a net: the run of the whole list, or the first place at which a ticket may not move.
pub mod Replays
