-- In a sound net each wire of a node leads to that node.
pub mod Faces
-- The move of a token is its move at the node that it faces, on every net.
pub mod Facing
-- What holds of each of two moves holds of the move that is made of them.
pub mod Either
-- A move names the number of its node.
pub mod Numbers
-- The plain rules as a relation whose rows can be turned round: the law of retrace.
pub mod Rows
-- One step in place is the table's move, and only a node of plain rules takes memory.
pub mod Single
-- The loop of a walk: what its invariant keeps from move to move, and what it gives at the end.
pub mod Walking
-- On a sound net a trail of the net's nodes is a walk, and a token has one walk of so many moves.
pub mod Trails
