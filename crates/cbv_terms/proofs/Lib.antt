-- A program has no fault exactly where its term is accepted.
pub mod Accepting
-- Derivations of what a term comes to by value, with their number of rules, and that they and evaluation give the same results.
pub mod Derived
-- The examples, by computing.
pub mod Examples
-- The translation of each term hands on the results of the term, and so does that of the whole program.
pub mod Fundamental
-- Each form of the translation hands on the results of its form of term.
pub mod Handing
-- The binders around a term as the definition's context and map: what becomes of them under one more binder, and what they say of a
-- variable.
pub mod Placing
-- The relation between results by value and closed terms of the translation, and between terms by value and what takes a continuation: a
-- logical relation, by recursion on the type (Tait's method), with an index that counts down.
pub mod Relation
-- The walk that looks for faults finds the least place of each kind, and the first of these two is the program's first fault.
pub mod Scanning
-- What the code of each form makes is what the definition says of the form, at the binders and the depth at hand.
pub mod Translating
-- The translation has the type that it is to have, and its size and height are bounded.
pub mod Typed
