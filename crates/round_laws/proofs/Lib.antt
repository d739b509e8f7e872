-- rounds and units as runs
-- the list of the live tickets rises, and has the live ones and no others
pub mod Listing
-- a unit has its run, and rounds are the run of their log
pub mod Rounding
-- two lists of the same tickets lead to states alike
pub mod Order
-- the span, and ranks of tokens
-- when a question is asked
pub mod Begins
-- the rank of a token belongs to its place, and a move raises it by one
pub mod Ranks
-- ranks in a state, and what a unit does to the greatest and to the least
pub mod Timed
-- rounds and schedules against the span
pub mod Spanning
-- schedules
-- rounds are one, and so is what p processors make that take the least tickets
pub mod Scheduled
-- with enough processors a schedule makes rounds
pub mod Twins
-- the moves of p processors against their units, and twice the best
pub mod Working
-- programs
-- what rounds of a program's net come to
pub mod Meaning
-- cases that the prover computes
pub mod Examples
