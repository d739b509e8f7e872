-- How a reading begins: past the nodes in front, at the term's own.
pub mod Beginning
-- What the nodes between a term and its operands (contractions, weakenings, doors, boxes) do to the marks of variable wires.
pub mod Marking
-- Which wires a part's variables have: each once, and all of them the part's own.
pub mod Loose
-- A part is read where its operands are, whatever stands around it: a lemma a form.
pub mod Steps
-- From the net of a typed term the walk reads that term: an induction on the term over those steps.
pub mod Complete
-- What is read is no higher than the bound, and no larger than the list of nodes.
pub mod Bounded
-- What the walk reads decides whose net a net is.
pub mod ReadingBack
-- The type that is found of a term is its type, and a typed term's is found.
pub mod Typings
-- The net of a term uses variables with the types with which the term uses them.
pub mod UsesKept
-- Lists of uses that come first, one behind the other: for the code that goes past them.
pub mod Taking
