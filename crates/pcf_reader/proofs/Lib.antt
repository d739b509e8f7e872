-- The operators by their signs: what holds of each, the level of its form, and the one that stands between types.
mod Levels
-- Which tokens may stand behind a phrase without going on with it.
pub mod Ends
-- Lists and their parts, above all of written tokens: what holds of each token, and how many nodes they count.
pub mod Lists
-- Signs and words, one by one: what holds of each of them holds of the token that a character or a word is.
pub mod Spelled
-- Runs of the machine over what a phrase writes.
pub mod Follows
-- What a phrase writes leads from where it is wanted to where it is got.
pub mod Exact
-- What has been read can be completed: each state is reached over the text of phrases, and some phrase closes it.
pub mod Reached
-- What has been read can be completed to a program.
pub mod Complete
-- The scan gives the tree of a derivation, or the first fault.
pub mod Judge
-- What derives is read, so it derives one tree and has no fault; a list has one first fault.
pub mod Whole
-- A list of tokens has one first fault, and none where it derives a tree.
pub mod First
-- A function goes on where another has left off.
pub mod Gives
-- The characters of a text, one by one.
pub mod Chars
-- One character more in each mode.
pub mod LexSteps
-- The machine over characters finds the split of a text.
pub mod Splitting
-- No token of a text is a prefix of a longer one.
pub mod Longest
-- The machine over characters splits a text by the longest match.
pub mod Lexed
-- The end of a text, or what is no token, stands last and alone.
pub mod Ended
-- A split of a text is the one that the machine over characters finds.
pub mod Unique
-- Each list of bytes stands for a tree or has a first fault.
pub mod TextOrFault
-- A reader at the first token of a list goes on as the machine does over the list.
pub mod Taking
-- The count and the height of what is read.
pub mod Bounds
-- A printed tree by its characters, its height and its open phrases, each as a recursion on the tree.
pub mod Shown
-- How the pieces of a printed text split.
pub mod Pieces
-- Each tree has a phrase for what is printed of it, on each level of the grammar.
pub mod Canon
-- Each term has a phrase for what is printed of it, on each level of the grammar.
pub mod Forms
-- What is printed is no deeper and no higher than what was read.
pub mod Fits
-- The names and numbers of a tree that was read are fine.
pub mod Fine
-- The characters of a printed tree are those of its spelling.
pub mod Shows
-- What is printed of a tree that was read is read back.
pub mod Back
-- Texts of the examples, by computing them.
pub mod Examples
