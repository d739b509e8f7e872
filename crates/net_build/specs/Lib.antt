-- What public contracts cite, and a reader has to believe, in the order to read it: nets and the nodes on the sides of a wire, the net of
-- a term, sound nets, the laws with an example, and how the code's wires are seen.
pub mod Nets
-- The node on a side of a wire: the least one, by number, that names the wire there.
pub mod Faces
-- The net of a term, by the order in which its parts are built.
pub mod NetOf
-- Sound nets: one root, each wire once on either side, and each node's wires of the kinds, types and depths of its row.
pub mod Sound
-- What is kept of a node that was found on a side of a wire: its number; and which numbers of a list are there.
pub mod Found
-- What holds of the net of every term: how large it is, and that it is sound where the term is closed and of type `nat`.
pub mod Laws
-- The net of `(fun x:nat. x + x) 3`, node by node.
pub mod Example
-- The view of a wire: the code's wire without where its type lies in memory.
pub mod Views
-- a net with another number at a node
pub mod Numbers
-- How the logic stores nets, so that models can have them. It says nothing of them.
pub mod Codes
-- What private contracts and proofs use alone: the index that a net keeps, and the builder's state.
pub mod Index
-- What a net keeps of its lists: each has fewer than 2 ^ 32 entries, and both indexes are those of the nodes.
pub mod Kept
-- How the code that builds a net keeps what the definition speaks of.
pub mod Building
