-- the tree of questions: what a state is accounted for by
-- tickets and next tickets
pub mod Tickets
-- from which place a place was asked: plain moves are gone back
pub mod Parents
-- questions on their way, waiting, and answered
pub mod Tree
-- what stands below a place, that is, what was asked from it on
pub mod Below
-- what one move does to tokens and entries, in a part of a tree and in the whole
pub mod Effects
-- one step of a tree at each of its forms
pub mod Growing
-- one move of a live ticket is one step of the tree
pub mod Advance
-- every state that a log leads to is accounted for by a tree
pub mod Reached
-- uniqueness and progress
-- each live token has its move where no question is stuck
pub mod Progress
-- live tokens ask different questions
pub mod Apart
-- no two live tokens at one place, and an answer exactly when none is live
pub mod Running
-- a step leaves the tokens of all other live tickets
pub mod Others
-- no place is asked twice
pub mod Once
-- no entry is opened twice
pub mod Opened
-- any order, and the order of one worker
-- two moves of different tickets in either order
pub mod Diamond
-- states alike but for their tickets go on alike, so that two moves can be exchanged anywhere in a run
pub mod AnyOrder
-- the one worker moves the least live ticket, up to the answer or the budget
pub mod OneWorker
-- the least live ticket stays the least as long as it lives
pub mod Stays
-- finite maps
-- a step over finite maps is a step of what they answer
pub mod Seen
-- the laws, over finite maps
pub mod MapLaws
-- a trail of solo moves is as many steps of its ticket
pub mod TrailSteps
-- what a state that a log leads to gives the step of a live ticket
pub mod Going
-- no more tickets are live than were given out
pub mod Few
