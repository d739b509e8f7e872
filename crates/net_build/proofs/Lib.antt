-- What other crates cite as well: how large a built net is, how often its nodes name each wire, and that it is sound.
-- The wires and nodes of a part are at most as many as the term's size and height say: an induction on the term, form by form.
pub mod Bounds
-- Each wire of a built net stands once below a node and once above one: the nodes' counts add up, form by form.
pub mod Count
-- Each node of a built net meets its row, so that the net of a typed closed term is sound.
pub mod Built
-- The index of the least node above or below each wire: a list's entries after a write, and one more node in front of an indexed list.
pub mod Entries
-- One node more in front of an indexed list.
mod Indexing
-- Lists of wires that differ at one place are not one list: for the test of two nets.
mod Comparing
-- The builder. Loose wires as a list that is aligned with the context.
mod Spreading
-- What a step added, and that it leaves what was there.
mod Growing
-- Contractions and doors: what the loops make of loose wires is what the definition makes of aligned lists.
mod Merging
-- The invariants of those loops.
mod Joining
-- The last wires and nodes of each form are those of the definition.
mod Ending
-- A term whose parts are placed one after another is placed as the definition says.
mod Placing
-- another number at a node leaves its wires, and so both indexes
pub mod Renumbering
