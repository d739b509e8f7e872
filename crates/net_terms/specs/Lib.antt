-- What public contracts cite, and a reader has to believe, in the order to read it: the limit, and whose net a net is.
pub mod Limits
-- Whose net a net is.
pub mod OfTerm
-- What other public contracts cite, and no promise of the program needs: what is answered of a net, the laws, and that the constant of
-- `limits` is the limit.
pub mod Answered
-- What holds of the term that is read from a net.
pub mod Laws
-- The constant of `limits` as definitions and contracts call it, which is what `law_limit` says.
pub mod Constants
-- How a term is read from the nodes of a net, typed, and held against the net's types: what laws and private contracts speak of.
pub mod TermOf
-- The terms of the forms with one operand and with two, as the code tells forms apart.
pub mod Forms
-- The type of a term in a context, found by going over the term; none where the term has no type there.
pub mod Typable
-- The types of a term's variables at the places where they are used, and of the nodes of a net that use variables.
pub mod Uses
