-- Places of a net and the tokens that stand at them.
-- A place is a wire with a direction and both stacks. The direction is the constructor, so that turning round is a swap, and a rule
-- can say in its pattern which way it goes. A token is a question at a place, or a value that answers it. Nothing here asks that
-- the net has the wire, or that the box stack is as long as the wire is deep: the table of moves speaks of every place.
use Rattle.std.specs.Prelude.{ℕ}
use Rattle.pcf_values.specs.declared.val.Val.{Val}
use Rattle.token_stacks.specs.Signatures.{Work, Boxes}

-- a wire, its work stack and its box stack, on the way up or down
pub data Place : Type 0 where
  up : ℕ → Work → Boxes → Place
  down : ℕ → Work → Boxes → Place

-- the same place with its direction turned
abbrev pub turned : Place → Place
turned (up w m t) = down w m t
turned (down w m t) = up w m t

-- a question, or an answer with its value
pub data TokenTree : Type 0 where
  ask : Place → TokenTree
  ans : Val → Place → TokenTree

-- where a token stands
abbrev pub place_of : TokenTree → Place
place_of (ask p) = p
place_of (ans v p) = p
