-- What a token carries: signatures, symbols, and its two stacks.
--
-- A signature tells which copy of a box is meant. `*` is the one use of a thing that is used once; `l s` and `r s` are the use `s`
-- in the left or right part of a contraction; `<s,u>` is the use `u` of a free variable of the box that is opened at `s`; and `y(u,s)`
-- is the call `s` of a recursive function from inside its own call `u`. They are plain trees.
--
-- A work stack says what is left to be done with the value that is asked for: `R` for the result of a function and the second
-- part of a pair, `L` for the argument and the first part, and signatures. A box stack has one signature for each box that is open
-- around the token. Both have their top first.
--
-- Contracts see the stacks of a token as these lists; nothing here says how they are stored.
use Rattle.std.specs.Prelude.{List}

pub data Sig : Type 0 where
  -- `*`
  star : Sig
  -- `l s`
  left_of : Sig → Sig
  -- `r s`
  right_of : Sig → Sig
  -- `<s,u>`
  pair_of : Sig → Sig → Sig
  -- `y(u,s)`
  again : Sig → Sig → Sig

-- the symbols of a work stack; `S s` is the signature `s` as a symbol
pub data Sym : Type 0 where
  R : Sym
  L : Sym
  S : Sig → Sym

abbrev pub Work : Type 0
Work = List Sym

abbrev pub Boxes : Type 0
Boxes = List Sig
