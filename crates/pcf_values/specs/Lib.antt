-- What public contracts cite, and a reader has to believe, in the order to read it: values, types and terms, typing, terms as they are
-- read, how the code's trees are seen, and the limits.
pub mod Values
-- Types and terms as trees: what contracts see of `Ty` and `Term`, without where their parts lie in memory.
pub mod Terms
-- The typing of terms, as a relation between a context, a term and a type.
pub mod Typing
-- Terms as they are read: with names in place of indexes, and with the place in the text of each node.
pub mod Named
-- The views: which tree each type, term and named term of the code stands for.
pub mod Views
-- The limits of the program as numbers, each inclusive, under the names that definitions and contracts use.
pub mod Most
-- What laws and measures speak of, and no promise of the program needs: the size of a term as it is read, and that the constants of
-- `limits` are the limits.
pub mod NamedSize
-- The constants of `limits` are the limits of the program.
pub mod Constants
-- How the logic stores values, types and terms, so that models can have them. It says nothing of them.
pub mod Codes
