-- The lines of a text joined are the text, and those of a listing are its net's.
pub mod Splitting
-- Lines stand one behind the other exactly when a listing begins with them.
pub mod Standings
-- One line: a printed type, a wire and a node are read from it, the node by its name.
pub mod TypesRead
-- A wire is read from its line.
pub mod WiresRead
-- The names of operators and of parts: by each its own form is found, and none has a line feed.
pub mod Names
-- A node is read from its line.
pub mod NodesRead
-- A line is read as the definition reads it, where what was read fits and has that very line.
pub mod LinesFit
-- What the reading of the lines answers: the net whose listing they are, or the first line that can't stand there.
pub mod Listed
-- The reading of the lines answers the first one that can't stand.
pub mod FirstFaults
-- The code's loops over lines give what the definition reads from them.
pub mod TextsRead
-- Bytes list one net, and so they have one answer; what is listed is accepted.
pub mod OneAnswers
-- The net of a closed term has small depths and numbers, so that only its types and its length limit a listing.
pub mod SmallNets
