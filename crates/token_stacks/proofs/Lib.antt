-- What words end in, and what a read, a write and a cut at their end find.
pub mod Ends
-- Parts of a list that change places, and words of a list that are written.
pub mod Parts
-- A few words that are held while the others move.
pub mod Turned
-- Both stacks in one list of words: what a model's value says of the words, and words that stand for other stacks.
pub mod Laid
-- What the words on top of each stack tell of it.
pub mod Shapes
-- Each call that changes both stacks, part by part.
pub mod BothSteps
-- Each call on the work stack alone: its words afterwards are those of the row's stack, or its tests say that the row wants another shape.
pub mod WorkSteps
-- The order of box stacks is total, and tells them apart as trees.
pub mod BoxOrder
-- Words tell stacks apart, and so does their order: what the two laws cite.
pub mod WordLaws
-- Texts of signatures: what the last word says of how the text begins, and what is put down meanwhile.
pub mod Said
-- What is put down of a signature's text: pieces behind others, and the last one taken off.
pub mod Pieces
-- Texts of stacks: the symbol on top by the last words, and the parts one after another.
pub mod Stacking
-- A stack that is written part by part, and one that is written whole.
pub mod Writing
