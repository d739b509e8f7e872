-- What public contracts cite, and a reader has to believe, in the order to read it: places and tokens, the plain rules, all moves, walks,
-- the laws, and how the code's tokens are seen.
pub mod Places
-- The table of plain rules: at each node, where a token goes that comes to it by a wire.
pub mod Table
-- The table of moves: the one move that a token has at the node that it faces.
pub mod Moves
-- Walks: solo moves of one token, one after another, and what is kept of them.
pub mod Walks
-- What holds of the table of moves and of walks, as laws.
pub mod Laws
-- Both stacks of a place.
pub mod Stacks
-- The view of a token: the code's token as a question or an answer at its place, and of a node that was seen: its number and the node.
pub mod Views
-- The rules and moves at a node that is faced, of which the laws and single steps speak.
pub mod AtNode
-- How the logic stores places, tokens and walks, so that models can have them. It says nothing of them.
pub mod Codes
-- What private contracts and proofs use alone: one step in place.
pub mod Steps
