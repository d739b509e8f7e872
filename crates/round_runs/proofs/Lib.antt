-- the list of the live tickets
-- it goes on from one live ticket to the next
pub mod Heading
-- it is as long as the map of the live tokens
pub mod Counting
-- rounds
-- a round, ticket by ticket
pub mod Moving
-- one round after the other
pub mod Going
